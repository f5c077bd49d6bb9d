-- `of_loose` stores the box, and marks the handle as full.
use Rattle.roman_c.proofs.Common.{◌≡◌, List, [], ◌∷◌, ◌++◌, refl, sym, subst, true, Val, vptr, SProp, ent, emp, id⊢, ftrue, WpFn, ‵, raw, ◌⊛◌, ◌$◌, ◌∵◌, !, qed, by, move, keep, split, fsplit, fjoin, suffices, use0, stop, fld, of_opd, true_lit, no_more, and_then, returns, enter, alloc_all, pass_all, free_all, look_at, get, get_in, sets, agg, sub, whole, fact, fact_i, tables, yes, RattleType, owns, types_at, type_at, plain, Ptr, block_ptr, nothing, Stays, stay_dropped, walk_of, Some, Goes-blank, ghosts, proved_at, leaves}
use Rattle.std.proofs.alloc.Global.TheLaws as heap_laws
use Rattle.roman_c.proofs.Values.{both, Loose, loose_good, loose_out, R, Z, word, held_good, held_in}
use Rattle.roman_c.specs.contracts.held.Held.of_loose.{ended, clauses}
use Rattle.roman_c.specs.contracts.held.Held.of_loose.Key.{name as #self}
use Rattle.roman_c.proofs.held.Held.of_loose.Statement.{statement}
use Rattle.roman_c.proofs.held.Held.of_loose.Code as code

pub of_loose_spec : {M : Type 1} → statement M
of_loose_spec 𝓤 𝓛 𝓜 𝓡 wired =
    let H = 𝓛.H in let 𝓣 = tables 𝓤 H 𝓜 𝓡 𝓡.env in let LZ = heap_laws.the_row_laws in let fn = code.function in let c = clauses 𝓛 𝓜.mem 𝓡.returns in
    let P : RattleType = Loose R Z heap_laws.the_row_laws ghosts in let hs : Stays ended.signature.params ended.kept = (stay_dropped (plain (λ _. P)) yes, tt) in
    proved_at 𝓛 ended hs c 𝓜 𝓡 (Goes-blank 𝓛 0 (plain (λ _. P)) yes (λ κs x f. tt), tt) #self fn (code.unfolded 𝓤 H 𝓜 𝓡 wired) (λ z are.
    let Post : Val → SProp 𝓤 = (walk_of 𝓛 ended hs c).post z in let Run : List Val → SProp 𝓤 = λ ws. WpFn 𝓤 H 𝓣.C 𝓣.Λ fn ws Post in let d = z.0.3.0 in let Out : RattleType = type_at ended.signature.result tt in
    let into : (vs : List Val) (v : Val) → vs ≡ v ∷ [] → ent 𝓤 (Run (v ∷ [])) (Run (vs ++ [])) = λ vs v ws. subst (λ (us : List Val). ent 𝓤 (Run (v ∷ [])) (Run us)) (sym (λ i. ws i ++ [])) (id⊢ 𝓤 (Run (v ∷ []))) in
    qed 𝓛 ((‵ ftrue ⊛ ‵ (owns (types_at ended.signature.params tt) z.0.3 z.0.4)) ∷ raw ((c tt z.0.3).requires z.1) ∷ []) ∵ split ! $ move ! (1 ∷ []) $ fsplit ! $
    loose_out R Z LZ ghosts ! d z.0.4.0 (λ b o h e ws fits. let typed = loose_good R Z LZ ghosts b o h fits in let p : Ptr = block_ptr b o in
    suffices ! (Run (both (vptr b o) h ∷ [])) (into z.0.4.0 (both (vptr b o) h) ws) $
    enter ! 𝓣.C 𝓣.Λ fn (both (vptr b o) h ∷ []) Post $ alloc_all ! (λ l. pass_all ! refl (typed, tt) $
    sets ! (of_opd ! (get_in ! (fld ! refl (stop !)) (sub ! 0 refl (whole !)))) refl (tt, tt) $
    sets ! (of_opd ! (get_in ! (fld ! refl (stop !)) (sub ! 1 refl (whole !)))) refl fits $
    sets ! (of_opd ! (get ! refl)) refl (tt, tt) $
    sets ! (agg ! (and_then ! (get ! refl) (and_then ! (true_lit !) (and_then ! (get ! refl) (no_more !))))) refl (held_good p true h fits) $
    held_in ! p true h d.alloc (Some d.value) $
    use0 𝓛 (raw (fact 𝓤 (Some d.value ≡ Some d.value))) (fact_i 𝓤 (Some d.value ≡ Some d.value) (emp 𝓤) refl) $ nothing ! $ nothing ! $ fjoin ! $ nothing ! $
    returns ! (look_at ! 0 refl) $ free_all ! refl $ keep ! (0 ∷ 1 ∷ 3 ∷ 2 ∷ []) $
    by ! (leaves 𝓛 ended hs c z (word p true h) (record { at = p; full = true; alloc = d.alloc; value = Some d.value }) (tt, tt) (tt, tt)))))
