use Rattle.roman_hearing.proofs.Common.{◌++◌, List, ℕ, take, sym, ◌∙◌, subst, arith, length-append, length-take-le, rules, Gave-then, Gave-nil, MAX_SESSION_BYTES, reader_state, IsHearing, inr, cursor, stream_state, length, ◌≤◌, ◌+◌}
use Rattle.roman_hearing.proofs.HearingLemmas.{hearing_starts}
use Rattle.roman_hearing.proofs.HearingEnds.{gave_pieces, rest_ends, out_at_quit, gave_quit, piece_ends}
use Rattle.roman_hearing.proofs.hearing.hear.Goals as goal

pub takes-init : goal.takes-init
takes-init g c = grind (arith, (Gave-nil (g.S.Source.rest c.args.source.now)), (hearing_starts c.args.session.now (g.O.Sink.written c.args.out.now) c.new-page.result c.new-splitter.result))

-- ---- at the end of the source

pub returns-then-count-eq0 : goal.returns-then-count-eq0
returns-then-count-eq0 g c =
    let known = c.takes.invariant in
    let moves = c.in-Ok.ensures.moves in
    let old = stream_state c.args.session.now (g.S.Source.rest c.args.source.now) (g.O.Sink.written c.args.out.now) in
    let new = stream_state c.hear_rest.new.session (g.S.Source.rest c.take.new.self) (g.O.Sink.written c.hear_rest.new.out) in
    let at_end = c.in-Ok.ensures.ends (omega (arith, known.piece, c.take.auto.into)) in
    let few : length known.taken ≤ MAX_SESSION_BYTES = omega (arith, known.room) in
    let ends = rest_ends old new (g.S.Source.rest c.takes.source) known.taken c.in-Ok.count c.take.new.into known.gave moves at_end c.if-count-eq0.true few c.hear_rest.result (c.hear_rest.ensures.hears old.cursor known.taken known.hearing) in
    record {
      ok = ends.ok;
      too_long = ends.too_long;
      read_fault = λ is. absurd (ends.untroubled is);
      write_fault = ends.write_fault;
      prefix = λ is behaviours. ends.prefix is (record { behaviours = behaviours; environment = c.names_environment.ensures });
      reads = record { rose = λ is. absurd (ends.untroubled is); stayed = λ is. c.in-Ok.ensures.cause.stays ∙ known.reads };
      writes = search rules;
      taken = gave_pieces _ (g.S.Source.rest c.takes.source) _ known.taken c.take.new.into c.takes.room c.in-Ok.count known.gave moves known.room (omega (arith, known.piece, c.take.auto.into));
      past = search rules;
      borrowed = search rules;
      texts = search rules;
    }

-- ---- within a piece

pub overflow_sub-room : goal.overflow_sub-room
overflow_sub-room g c =
    let h = rw c.in-Ok-More.field-0-is at (c.in-Ok-More.ensures.hears _ c.takes.invariant.taken c.takes.invariant.hearing) in
    omega (arith, h.1, length-take-le c.in-Ok.count c.take.new.into c.in-Ok.ensures.bound)

pub takes-smaller : goal.takes-smaller
takes-smaller g c =
    let h = rw c.in-Ok-More.field-0-is at (c.in-Ok-More.ensures.hears _ c.takes.invariant.taken c.takes.invariant.hearing) in
    omega (arith, h.1, c.if-count-eq0.false, length-take-le c.in-Ok.count c.take.new.into c.in-Ok.ensures.bound)

pub takes-preserved : goal.takes-preserved
takes-preserved g c =
    let known = c.takes.invariant in
    let old = cursor c.args.session.now (g.O.Sink.written c.args.out.now) in
    let got = take c.in-Ok.count c.take.new.into in
    let h = rw c.in-Ok-More.field-0-is at (c.in-Ok-More.ensures.hears old known.taken known.hearing) in
    record {
      taken = known.taken ++ got;
      gave = Gave-then (g.S.Source.rest c.args.source.now) (g.S.Source.rest c.takes.source) (g.S.Source.rest c.take.new.self) known.taken got known.gave c.in-Ok.ensures.moves;
      hearing = subst (λ (page : List ℕ). IsHearing old (known.taken ++ got) (reader_state c.hear_piece.new.session (g.O.Sink.written c.hear_piece.new.out) page c.hear_piece.new.splitter)) (sym c.in-Ok-More.ensures.empty) h.0;
      page = c.in-Ok-More.ensures.empty;
      room = omega (arith, h.1, known.room, length-append known.taken got, length-take-le c.in-Ok.count c.take.new.into c.in-Ok.ensures.bound);
      piece = c.take.auto.into ∙ known.piece;
      reads = c.in-Ok.ensures.cause.stays ∙ known.reads;
      writes = c.in-Ok-More.ensures.cause.stayed (λ e. cc) ∙ known.writes;
      borrowed = c.in-Ok.ensures.borrowed ∙ known.borrowed;
      texts = c.in-Ok.ensures.texts ∙ known.texts;
    }

pub returns-in-Ok-Quit-clause-ok : goal.returns-in-Ok-Quit-clause-ok
returns-in-Ok-Quit-clause-ok g c =
    let known = c.takes.invariant in
    let old = stream_state c.args.session.now (g.S.Source.rest c.args.source.now) (g.O.Sink.written c.args.out.now) in
    let new = stream_state c.hear_piece.new.session (g.S.Source.rest c.take.new.self) (g.O.Sink.written c.hear_piece.new.out) in
    let stops = rw c.in-Ok-Quit.field-0-is at (c.in-Ok-Quit.ensures.hears _ known.taken known.hearing) in
    out_at_quit old new (g.S.Source.rest c.takes.source) known.taken (take c.in-Ok.count c.take.new.into) c.takes.room
    known.gave c.in-Ok.ensures.moves known.room stops

pub returns-in-Ok-Quit-clause-taken : goal.returns-in-Ok-Quit-clause-taken
returns-in-Ok-Quit-clause-taken g c =
    let known = c.takes.invariant in
    gave_pieces _ (g.S.Source.rest c.takes.source) _ known.taken c.take.new.into c.takes.room c.in-Ok.count known.gave c.in-Ok.ensures.moves known.room (omega (arith, known.piece, c.take.auto.into))

pub returns-in-Ok-Quit-clause-past : goal.returns-in-Ok-Quit-clause-past
returns-in-Ok-Quit-clause-past g c =
    let known = c.takes.invariant in
    let old = stream_state c.args.session.now (g.S.Source.rest c.args.source.now) (g.O.Sink.written c.args.out.now) in
    let new = stream_state c.hear_piece.new.session (g.S.Source.rest c.take.new.self) (g.O.Sink.written c.hear_piece.new.out) in
    let stops = rw c.in-Ok-Quit.field-0-is at (c.in-Ok-Quit.ensures.hears _ known.taken known.hearing) in
    let few : length (take c.in-Ok.count c.take.new.into) ≤ 4095 + 1 = omega (arith, known.piece, c.take.auto.into, c.in-Ok.ensures.bound, length-take-le c.in-Ok.count c.take.new.into c.in-Ok.ensures.bound) in
    inr (gave_quit old new (g.S.Source.rest c.takes.source) known.taken (take c.in-Ok.count c.take.new.into) c.takes.room
    known.gave c.in-Ok.ensures.moves known.room 4095 few stops)

pub returns-in-Err : goal.returns-in-Err
returns-in-Err g c =
    let known = c.takes.invariant in
    let moves = c.in-Ok.ensures.moves in
    let old = stream_state c.args.session.now (g.S.Source.rest c.args.source.now) (g.O.Sink.written c.args.out.now) in
    let new = stream_state c.hear_piece.new.session (g.S.Source.rest c.take.new.self) (g.O.Sink.written c.hear_piece.new.out) in
    let got = take c.in-Ok.count c.take.new.into in
    let ends = piece_ends old new (g.S.Source.rest c.takes.source) known.taken got c.takes.room known.gave moves known.room c.hear_piece.new.splitter c.in-Err.error (c.in-Err.ensures.hears old.cursor known.taken known.hearing) in
    record {
      ok = search rules;
      too_long = ends.too_long;
      read_fault = λ is. absurd (ends.untroubled is);
      write_fault = ends.write_fault;
      prefix = λ is behaviours. ends.prefix is (record { behaviours = behaviours; environment = c.names_environment.ensures });
      reads = record { rose = λ is. absurd (ends.untroubled is); stayed = λ is. c.in-Ok.ensures.cause.stays ∙ known.reads };
      writes = search rules;
      taken = gave_pieces _ (g.S.Source.rest c.takes.source) _ known.taken c.take.new.into c.takes.room c.in-Ok.count known.gave moves known.room (omega (arith, known.piece, c.take.auto.into));
      past = search rules;
      borrowed = search rules;
      texts = search rules;
    }
