-- The loss of services within a session never helps.
use Rattle.roman_turn_laws.proofs.Common.{Bool, IsFalse, IsTrue, List, Ok, Some, [], ap, false, inl, inr, refl, slice_get, subst, suc, sym, true, zero, ℕ, ◌∷◌, ◌≡◌, AcceptedNamesAreClear, IsGreat, State, Refuses, TurnsInto, Unless, IsReady, frozen_system, gone_system, system_of, LosingNeverHelps, Freeze, Thaw, after, set_frozen, without, Great, IsPair, IsSys, Sys, die, freeze, thaw, MayGo, TurnsNeverGain, needs_elim}
use Rattle.roman_model.specs.System as model
use Rattle.roman_text.specs.declared.replies.Reply.TheVariants as reply
use Rattle.roman_turn_laws.proofs.SoundLemmas.{reached_sound}

-- a frozen seat that is made ready and then frozen again is as before
thawed_back : (seats : List model.Seat) (k : ℕ) → ((seat : model.Seat) → slice_get seats k ≡ Some seat → IsTrue seat.frozen) → set_frozen (set_frozen seats k false) k true ≡ seats
thawed_back [] k frozen = refl
thawed_back (seat ∷ seats) zero frozen = ap (λ (f : Bool). let x : model.Seat = record { beh = seat.beh; frozen = f; rests = seat.rests } in x ∷ seats) (sym (frozen seat refl))
thawed_back (seat ∷ seats) (suc k) frozen = ap (λ (xs : List model.Seat). seat ∷ xs) (thawed_back seats k frozen)

is_true : (b : Bool) → (IsFalse b → ⊥) → IsTrue b
is_true true never = refl
is_true false never = absurd (never refl)

module _ (never : LosingNeverHelps) (s new : State) (sys : IsSys (system_of s.parts)) (pair : IsPair (system_of s.parts) s.here) (service text : List ℕ) where
  frozen_lost : TurnsInto s (Ok (freeze service)) text new → IsGreat new → IsGreat s
  frozen_lost turn great =
      needs_elim (λ r. subst IsGreat r.1 great) (λ (k, there) c.
      needs_elim (λ r. subst IsGreat r.1 great) (λ idle c.
      needs_elim (λ r. subst IsGreat r.1 great) (λ ready c.
      (never (system_of s.parts) s.here).one_frozen k (subst (λ (t : Sys). Great t s.here) (frozen_system s.parts k true) (subst IsGreat c.1 great))) c) c) turn

  died_lost : TurnsInto s (Ok (die service)) text new → MayGo s service → IsGreat new → IsGreat s
  died_lost turn may great =
      needs_elim (λ r. subst IsGreat r.1 great) (λ (k, there) c.
      needs_elim (λ r. subst IsGreat r.1 great) (λ idle c.
      let (seat, seated, goes) = may k there in
      (never (system_of s.parts) s.here).one_gone sys pair k seat seated goes
      (subst (λ (t : Sys). Great t (without k s.here)) (gone_system s.parts k seat) (subst IsGreat c.1 great))) c) turn

  thawed_gains : TurnsInto s (Ok (thaw service)) text new → IsGreat s → IsGreat new
  thawed_gains turn great =
      needs_elim (λ r. subst IsGreat (sym r.1) great) (λ (k, there) c.
      needs_elim (λ r. subst IsGreat (sym r.1) great) (λ idle c.
      frozen_out k _ c (λ frozen c.
      let old = system_of s.parts in
      let back : after (Freeze k) (after (Thaw k) old) ≡ old = ap (λ (seats : List model.Seat). let S : Sys = record { env = old.env; target = old.target; seats = seats } in S) (thawed_back old.seats k frozen) in
      subst IsGreat (sym c.1) (subst (λ (t : Sys). Great t s.here) (sym (frozen_system s.parts k false)) ((never (after (Thaw k) old) s.here).one_frozen k (subst (λ (t : Sys). Great t s.here) (sym back) great))))) c) turn
    where
      -- a service that isn't ready is frozen
      frozen_out : (k : ℕ) (T : Type 0) → Unless (IsReady s k) (Refuses s text new reply.ErrorReady) T → (((seat : model.Seat) → slice_get (system_of s.parts).seats k ≡ Some seat → IsTrue seat.frozen) → T → IsGreat new) → IsGreat new
      frozen_out k T (inl (ready, r)) go = subst IsGreat (sym r.1) great
      frozen_out k T (inr (never, t)) go = go (λ seat seated. is_true seat.frozen (λ f. never (seat, seated, f))) t

pub losses_never_help : LosingNeverHelps → AcceptedNamesAreClear → TurnsNeverGain
losses_never_help never clear texts document library s reached =
    let (is, sound) = reached_sound clear texts document library s reached in
    record {
      frozen = λ service text new. frozen_lost never s new sound.parts.system is.here service text;
      died = λ service text new. died_lost never s new sound.parts.system is.here service text;
      thawed = λ service text new. thawed_gains never s new sound.parts.system is.here service text;
    }
