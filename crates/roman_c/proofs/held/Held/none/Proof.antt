-- `none` holds nothing.
use Rattle.roman_c.proofs.Common.{◌≡◌, List, [], ◌∷◌, ◌++◌, refl, sym, subst, false, Val, SProp, ent, emp, id⊢, ftrue, WpFn, ‵, raw, ◌⊛◌, ◌$◌, ◌∵◌, !, qed, by, move, keep, split, fsplit, fjoin, suffices, use0, lit, false_lit, no_more, and_then, returns, enter, alloc_all, pass_all, free_all, look_at, get, sets, agg, fact, fact_i, tables, yes, RattleType, owns, types_at, type_at, plain, null_ptr, nothing, Stays, stay_dropped, walk_of, Option, None, Goes-blank, handle_tells, ghosts, proved_at, leaves}
use Rattle.std.specs.contracts.alloc.Global as heap
use Rattle.std.proofs.alloc.Global.TheLaws as heap_laws
use Rattle.roman_c.proofs.Values.{R, Z, word, held_good, held_in, al}
use Rattle.roman_c.specs.contracts.held.Held.none.{ended, clauses}
use Rattle.roman_c.specs.contracts.held.Held.none.Key.{name as #self}
use Rattle.roman_c.proofs.held.Held.none.Statement.{statement}
use Rattle.roman_c.proofs.held.Held.none.Code as code

pub none_spec : {M : Type 1} → statement M
none_spec 𝓤 𝓛 𝓜 𝓡 wired =
    let H = 𝓛.H in let 𝓣 = tables 𝓤 H 𝓜 𝓡 𝓡.env in let LZ = heap_laws.the_row_laws in let fn = code.function in let c = clauses 𝓛 𝓜.mem 𝓡.returns in
    let P : RattleType = heap.the_row in let hs : Stays ended.signature.params ended.kept = (stay_dropped (plain (λ _. P)) yes, tt) in
    proved_at 𝓛 ended hs c 𝓜 𝓡 (Goes-blank 𝓛 0 (plain (λ _. P)) yes (λ κs x f. tt), tt) #self fn (code.unfolded 𝓤 H 𝓜 𝓡 wired) (λ z are.
    let Post : Val → SProp 𝓤 = (walk_of 𝓛 ended hs c).post z in let Run : List Val → SProp 𝓤 = λ ws. WpFn 𝓤 H 𝓣.C 𝓣.Λ fn ws Post in let d = z.0.3.0 in let Out : RattleType = type_at ended.signature.result tt in
    let into : (vs : List Val) (v : Val) → vs ≡ v ∷ [] → ent 𝓤 (Run (v ∷ [])) (Run (vs ++ [])) = λ vs v ws. subst (λ (us : List Val). ent 𝓤 (Run (v ∷ [])) (Run us)) (sym (λ i. ws i ++ [])) (id⊢ 𝓤 (Run (v ∷ []))) in
    qed 𝓛 ((‵ ftrue ⊛ ‵ (owns (types_at ended.signature.params tt) z.0.3 z.0.4)) ∷ raw ((c tt z.0.3).requires z.1) ∷ []) ∵ split ! $ move ! (1 ∷ []) $ fsplit ! $
    let Nothing : Option R.Denot = None in handle_tells (al R Z LZ ghosts) ! d z.0.4.0 (λ h ws fits.
    suffices ! (Run (h ∷ [])) (into z.0.4.0 h ws) $
    enter ! 𝓣.C 𝓣.Λ fn (h ∷ []) Post $ alloc_all ! (λ l. pass_all ! refl (fits, tt) $
    sets ! (agg ! (and_then ! (lit ! tt) (and_then ! (false_lit !) (and_then ! (get ! refl) (no_more !))))) refl (held_good null_ptr false h fits) $
    nothing ! $ held_in ! null_ptr false h d None $
    use0 𝓛 (raw (fact 𝓤 (Nothing ≡ None))) (fact_i 𝓤 (Nothing ≡ None) (emp 𝓤) refl) $ nothing ! $ nothing ! $ fjoin ! $ nothing ! $
    returns ! (look_at ! 0 refl) $ free_all ! refl $ keep ! (0 ∷ 1 ∷ 3 ∷ 2 ∷ []) $
    by ! (leaves 𝓛 ended hs c z (word null_ptr false h) (record { at = null_ptr; full = false; alloc = d; value = None }) (tt, tt) (tt, tt)))))
