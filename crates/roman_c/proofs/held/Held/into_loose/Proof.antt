-- `into_loose` returns the box if the handle is full.
use Rattle.roman_c.proofs.Common.{◌≡◌, List, [], ◌∷◌, ◌++◌, refl, sym, ap, ◌∙◌, subst, lit<, Bool, true, false, Val, vptr, vcons, vnil, SProp, ent, emp, id⊢, ftrue, WpFn, ‵, raw, ◌⊛◌, at_ret, ◌$◌, ◌∵◌, !, qed, by, move, keep, split, fsplit, fjoin, suffices, use0, use1, stop, fld, lit, of_opd, no_more, and_then, first, branches, exec, returns, enter, alloc_all, pass_all, free_all, look_at, get, get_in, sets, sets_last, env, agg, sub, whole, live, fact, fact_i, tables, yes, RattleType, owns, types_at, type_at, plain, Ptr, block_ptr, nothing, layout, Stays, stay_dropped, walk_of, Some, None, Goes-blank, Ptr-Good, after, Good, Some-of, none_of, and_tt, ghosts, proved_at, leaves, ended, clauses}
use Rattle.std.proofs.alloc.Global.TheLaws as heap_laws
use Rattle.roman_c.specs.contracts.held.Held as held
use Rattle.roman_c.proofs.Values.{both, Loose, loose_good, loose_in, R, Z, word, held_good, held_out, held_cases}
use Rattle.roman_c.specs.contracts.held.Held.into_loose.Key.{name as #self}
use Rattle.roman_c.proofs.held.Held.into_loose.Statement.{statement}
use Rattle.roman_c.proofs.held.Held.into_loose.Code as code

pub into_loose_spec : {M : Type 1} → statement M
into_loose_spec 𝓤 𝓛 𝓜 𝓡 wired =
    let H = 𝓛.H in let 𝓣 = tables 𝓤 H 𝓜 𝓡 𝓡.env in let LZ = heap_laws.the_row_laws in let fn = code.function in let c = clauses 𝓛 𝓜.mem 𝓡.returns in
    let P : RattleType = held.the_row in let hs : Stays ended.signature.params ended.kept = (stay_dropped (plain (λ _. P)) yes, tt) in
    proved_at 𝓛 ended hs c 𝓜 𝓡 (Goes-blank 𝓛 0 (plain (λ _. P)) yes (λ κs x f. tt), tt) #self fn (code.unfolded 𝓤 H 𝓜 𝓡 wired) (λ z are.
    let Post : Val → SProp 𝓤 = (walk_of 𝓛 ended hs c).post z in let Run : List Val → SProp 𝓤 = λ ws. WpFn 𝓤 H 𝓣.C 𝓣.Λ fn ws Post in let d = z.0.3.0 in let Out : RattleType = type_at ended.signature.result tt in
    let into : (vs : List Val) (v : Val) → vs ≡ v ∷ [] → ent 𝓤 (Run (v ∷ [])) (Run (vs ++ [])) = λ vs v ws. subst (λ (us : List Val). ent 𝓤 (Run (v ∷ [])) (Run us)) (sym (λ i. ws i ++ [])) (id⊢ 𝓤 (Run (v ∷ []))) in
    qed 𝓛 ((‵ ftrue ⊛ ‵ (owns (types_at ended.signature.params tt) z.0.3 z.0.4)) ∷ raw ((c tt z.0.3).requires z.1) ∷ []) ∵ split ! $ move ! (1 ∷ []) $ fsplit ! $
    let Lr : RattleType = Loose R Z LZ ghosts in held_out ! d z.0.4.0 (λ h ws fits. held_cases ! d.alloc d.at d.full d.value
    (λ ef ey. let v : Val = word d.at false h in
    suffices ! (Run (v ∷ [])) (into z.0.4.0 v (ws ∙ ap (λ (f : Bool). word d.at f h ∷ []) ef)) $
    enter ! 𝓣.C 𝓣.Λ fn (v ∷ []) Post $ alloc_all ! (λ l. pass_all ! refl (held_good d.at false h fits, tt) $ let Ev = env fn.locals l in
    sets ! (of_opd ! (get_in ! (fld ! refl (stop !)) (sub ! 0 refl (whole !)))) refl (Ptr-Good d.at) $ sets ! (of_opd ! (get_in ! (fld ! refl (stop !)) (sub ! 1 refl (whole !)))) refl (tt, tt) $ sets ! (of_opd ! (get_in ! (fld ! refl (stop !)) (sub ! 2 refl (whole !)))) refl fits $ sets ! (of_opd ! (get ! refl)) refl (tt, tt) $ first ! $
    branches ! (get ! refl) (λ wrong. absurd wrong) (λ _.
    sets_last ! (agg ! (and_then ! (lit ! tt) (no_more !))) refl (tt, (record { fits = lit< tt }, tt)) $ exec ! 𝓣.C 𝓣.Λ Ev (after 5 fn.body) (at_ret Ev Post) $ sets ! (of_opd ! (get ! refl)) refl (tt, (record { fits = lit< tt }, tt)) $
    use0 𝓛 (‵ (Out.own_val None (live 0 vnil ∷ []))) (none_of 𝓛 Lr) $
    use0 𝓛 (raw (fact 𝓤 (d.value ≡ None))) (fact_i 𝓤 (d.value ≡ None) (emp 𝓤) ey) $ nothing ! $ nothing ! $ fjoin ! $ nothing ! $
    returns ! (look_at ! 0 refl) $ free_all ! refl $ keep ! (0 ∷ 1 ∷ 3 ∷ 2 ∷ []) $ by ! (leaves 𝓛 ended hs c z (live 0 vnil) None (tt, tt) (tt, tt)))))
    (λ b o x ep ef ey. let v : Val = word (block_ptr b o) true h in let made : Val = both (vptr b o) h in let typed = loose_good R Z LZ ghosts b o h fits in
    let out : Val = live 1 (vcons made vnil) in let q : Lr.Denot = record { at = block_ptr b o; alloc = d.alloc; value = x } in
    let good : Good (layout Out) out = (and_tt _ typed.0, (record { fits = lit< tt }, (typed.1, tt))) in
    suffices ! (Run (v ∷ [])) (into z.0.4.0 v (ws ∙ ap (λ (f : Bool). word d.at f h ∷ []) ef ∙ ap (λ (p : Ptr). word p true h ∷ []) ep)) $
    enter ! 𝓣.C 𝓣.Λ fn (v ∷ []) Post $ alloc_all ! (λ l. pass_all ! refl (held_good (block_ptr b o) true h fits, tt) $ let Ev = env fn.locals l in
    sets ! (of_opd ! (get_in ! (fld ! refl (stop !)) (sub ! 0 refl (whole !)))) refl (Ptr-Good (block_ptr b o)) $ sets ! (of_opd ! (get_in ! (fld ! refl (stop !)) (sub ! 1 refl (whole !)))) refl (tt, tt) $ sets ! (of_opd ! (get_in ! (fld ! refl (stop !)) (sub ! 2 refl (whole !)))) refl fits $ sets ! (of_opd ! (get ! refl)) refl (tt, tt) $ first ! $
    branches ! (get ! refl) (λ _.
    sets ! (of_opd ! (get ! refl)) refl (tt, tt) $ sets ! (agg ! (and_then ! (get ! refl) (and_then ! (get ! refl) (no_more !)))) refl typed $
    sets_last ! (agg ! (and_then ! (lit ! tt) (and_then ! (get ! refl) (no_more !)))) refl good $ exec ! 𝓣.C 𝓣.Λ Ev (after 5 fn.body) (at_ret Ev Post) $ sets ! (of_opd ! (get ! refl)) refl good $
    loose_in R Z LZ ghosts ! b o h d.alloc x $ use1 𝓛 (‵ (Out.own_val (Some q) (out ∷ []))) (Some-of 𝓛 Lr q made) $
    use0 𝓛 (raw (fact 𝓤 (d.value ≡ Some x))) (fact_i 𝓤 (d.value ≡ Some x) (emp 𝓤) ey) $ nothing ! $ nothing ! $ fjoin ! $ nothing ! $
    returns ! (look_at ! 0 refl) $ free_all ! refl $ keep ! (0 ∷ 1 ∷ 3 ∷ 2 ∷ []) $ by ! (leaves 𝓛 ended hs c z out (Some q) (tt, tt) (tt, tt)))
    (λ wrong. absurd wrong)))))
