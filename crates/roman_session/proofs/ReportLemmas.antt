-- The report of a session equals the report of the library that begins in the present states of the session.
use Rattle.roman_session.proofs.Common.{◌≡◌, ℕ, ◌<◌, List, [], ◌∷◌, map, refl, ap, arith, NamedBeh, NamedSys, seat_of, system_of, Beh, IsBeh, IsSys, IsPair, Env, Situation, IsSituation, lines_text, report_text, afresh, services_in, shown, Seat, AllZip, seat_of_service, parts_of, start_pair_of}

-- the present services give the same seats again, and begin in the same states
pub services_again : (catalogue : List NamedBeh) (seats : List Seat) (bs : List ℕ) → AllZip (λ seat b. b < seat.beh.states) (map (seat_of catalogue) seats) bs →
    (map seat_of_service (services_in seats bs) ≡ seats) × (map (λ x. x.state) (services_in seats bs) ≡ bs)
services_again catalogue [] [] zip = (refl, refl)
services_again catalogue [] (b ∷ bs) zip = absurd zip
services_again catalogue (seat ∷ seats) [] zip = absurd zip
services_again catalogue (seat ∷ seats) (b ∷ bs) zip =
    let (same, states) = services_again catalogue seats bs zip.1 in
    (ap (λ (xs : List Seat). seat ∷ xs) same, ap (λ (xs : List ℕ). b ∷ xs) states)

-- the parts that begin in these states, with these seats
abbrev begun : Situation → List Seat → NamedSys
begun s seats = record {
  environment = record s.parts.environment { env = record s.parts.environment.env { start = s.here.e } };
  catalogue = s.parts.catalogue;
  target = record s.parts.target { beh = record s.parts.target.beh { start = s.here.t } };
  seats = seats;
  limit = s.parts.limit;
}

-- the report doesn't depend on the starting states of the parts
start_unsaid : (s : Situation) → report_text s.parts s.here ≡ report_text (begun s s.parts.seats) s.here
unfolding report_text lines_text
start_unsaid s = refl

pub reports_afresh : (s : Situation) → IsSituation s → report_text s.parts s.here ≡ report_text (parts_of (afresh (shown s))) (start_pair_of (afresh (shown s)))
reports_afresh s is = let (seats, states) = services_again s.parts.catalogue s.parts.seats s.here.bs is.here.bs in grind (arith, start_unsaid)

-- The steps don't depend on the starting states of the library

beh_begun : (env : Env) (beh : Beh) (e b : ℕ) → IsBeh env beh → b < beh.states → IsBeh (record env { start = e }) (record beh { start = b })
beh_begun env beh e b is within = record { states = is.states; start = within; finals = is.finals; steps = is.steps; guards = is.guards }

begun_known : (s : Situation) → IsSituation s → IsSys (system_of (begun s s.parts.seats))
begun_known s is =
    let sys = is.parts.system in
    record {
      env = record { states = sys.env.states; actions = sys.env.actions; start = is.here.e; triples = sys.env.triples };
      target = beh_begun s.parts.environment.env s.parts.target.beh s.here.e s.here.t sys.target is.here.t;
      single = sys.single;
      seats = λ x i. let beh = sys.seats x i in record { states = beh.states; start = beh.start; finals = beh.finals; steps = beh.steps; guards = beh.guards };
      few = sys.few;
    }

-- the library that begins in the present states of the session has a well-formed system, and its start pair is one of the system
pub afresh_known : (s : Situation) → IsSituation s → IsSys (system_of (parts_of (afresh (shown s)))) × IsPair (system_of (parts_of (afresh (shown s)))) (start_pair_of (afresh (shown s)))
afresh_known s is = let (seats, states) = services_again s.parts.catalogue s.parts.seats s.here.bs is.here.bs in grind (arith, begun_known)
