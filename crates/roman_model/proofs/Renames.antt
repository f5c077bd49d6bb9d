-- Removal lists, masks and depths carry over between arenas whose nodes correspond by a renaming.
use Rattle.roman_model.proofs.Common.{◌↔◌, ◌≡◌, ℕ, zero, suc, Bool, true, false, not, ◌||◌, List, [], ◌∷◌, map, if◌then◌else◌, refl, ap, ap₂, ◌∙◌, arith, list_any, IsIn, below, Arena, Entry, is_among, is_listed, is_justified, mask, IsOrderFrom, IsOrder, replay_from, replay, loses, Reason, Final, Act}
use Rattle.roman_model.proofs.Lists.{any_same, list_any-map}

-- f maps nodes of A to nodes of B, and the arenas agree on each of these nodes and its image
pub record Renames {N M : Type 0} (A : Arena N) (B : Arena M) (f : N → M) (Is : N → Type 0) : Type 0 where
  pub same : (p q : N) → Is p → Is q → A.same p q ≡ B.same (f p) (f q)
  pub actions : A.actions ≡ B.actions
  pub seats : A.seats ≡ B.seats
  pub ready : (k : ℕ) → A.ready k ≡ B.ready k
  pub fine : (p : N) → Is p → A.fine p ≡ B.fine (f p)
  pub allows : (p : N) → Is p → (a : ℕ) → A.allows p a ≡ B.allows (f p) a
  pub outcomes : (p : N) → Is p → (a k : ℕ) → map f (A.outcomes p a k) ≡ B.outcomes (f p) a k
  pub within : (p : N) → Is p → (a k : ℕ) → (q : N) → IsIn q (A.outcomes p a k) → Is q

-- the entry with its node renamed by f
abbrev pub renamed_entry : {N M : Type 0} → (N → M) → Entry N → Entry M
renamed_entry f x = record { node = f x.node; reason = x.reason }

-- each is a node
abbrev pub AreNodes : {N : Type 0} → (N → Type 0) → List N → Type 0
AreNodes {N} Is ps = (p : N) → IsIn p ps → Is p

abbrev pub HaveNodes : {N : Type 0} → (N → Type 0) → List (Entry N) → Type 0
HaveNodes {N} Is L = (x : Entry N) → IsIn x L → Is x.node

-- a map over a conditional
map_if : {X Y : Type 0} (g : X → Y) (b : Bool) (x : X) (us vs : List X) (ws zs : List Y) → map g us ≡ ws → map g vs ≡ zs →
    map g (if b then x ∷ us else vs) ≡ (if b then g x ∷ ws else zs)
map_if g true x us vs ws zs u v = ap (λ ys. g x ∷ ys) u
map_if g false x us vs ws zs u v = v

module _ {N M : Type 0} (A : Arena N) (B : Arena M) (f : N → M) (Is : N → Type 0) (r : Renames A B f Is) where
  pub among_renamed : (ps : List N) (p : N) → AreNodes Is ps → Is p → is_among A ps p ≡ is_among B (map f ps) (f p)
  among_renamed ps p are is = grind (arith, any_same, list_any-map)

  pub listed_renamed : (L : List (Entry N)) (p : N) → HaveNodes Is L → Is p → is_listed A L p ≡ is_listed B (map (renamed_entry f) L) (f p)
  listed_renamed L p have is = grind (arith, any_same, list_any-map)

  pub justified_renamed : (gone : N → Bool) (lost : M → Bool) → ((q : N) → Is q → gone q ≡ lost (f q)) →
      (p : N) → Is p → (reason : Reason) → is_justified A gone p reason ≡ is_justified B lost (f p) reason
  justified_renamed gone lost agree p is Final = ap not (r.fine p is)
  justified_renamed gone lost agree p is (Act a) = grind (arith, any_same, list_any-map)

  pub mask_renamed : (gone : N → Bool) (lost : M → Bool) → ((q : N) → Is q → gone q ≡ lost (f q)) →
      (p : N) → Is p → (a : ℕ) → mask A gone p a ≡ mask B lost (f p) a
  mask_renamed gone lost agree p is a = grind (arith, any_same, list_any-map)

  pub loses_renamed : (n : ℕ) (p : N) → Is p → loses A n p ≡ loses B n (f p)
  loses_renamed zero p is = ap not (r.fine p is)
  loses_renamed (suc n) p is =
      ap₂ (λ x y. x || y) (loses_renamed n p is)
      (any_same (λ a. is_justified A (loses A n) p (Act a)) (λ a. is_justified B (loses B n) (f p) (Act a)) (below A.actions)
      (λ a i. justified_renamed (loses A n) (loses B n) (λ q is_q. loses_renamed n q is_q) p is (Act a))
      ∙ ap (λ m. list_any (λ a. is_justified B (loses B n) (f p) (Act a)) (below m)) r.actions)

  -- the nodes of a removal list can be renamed there and back
  order_both : (before : List N) (L : List (Entry N)) → AreNodes Is before → HaveNodes Is L →
      IsOrderFrom A before L ↔ IsOrderFrom B (map f before) (map (renamed_entry f) L)
  order_both before [] are have = (λ order. tt, λ order. tt)
  order_both before (x ∷ L) are have = grind (arith, among_renamed, justified_renamed, (order_both (x.node ∷ before) L))

  pub order_renamed : (L : List (Entry N)) → HaveNodes Is L → IsOrder A L → IsOrder B (map (renamed_entry f) L)
  order_renamed L have = (order_both [] L (λ p i. absurd i) have).0

  pub order_named : (L : List (Entry N)) → HaveNodes Is L → IsOrder B (map (renamed_entry f) L) → IsOrder A L
  order_named L have = (order_both [] L (λ p i. absurd i) have).1

  pub replay_renamed_from : (kept : List N) (L : List (Entry N)) → AreNodes Is kept → HaveNodes Is L →
      map (renamed_entry f) (replay_from A kept L) ≡ replay_from B (map f kept) (map (renamed_entry f) L)
  replay_renamed_from kept [] are have = refl
  replay_renamed_from kept (x ∷ L) are have = grind (arith, map_if, justified_renamed, among_renamed, (replay_renamed_from (x.node ∷ kept) L), (replay_renamed_from kept L are))

  pub replay_renamed : (L : List (Entry N)) → HaveNodes Is L → map (renamed_entry f) (replay A L) ≡ replay B (map (renamed_entry f) L)
  replay_renamed L have = replay_renamed_from [] L (λ p i. absurd i) have
