use Rattle.roman_opening.specs.declared.status.Status.TheVariants as status
use Rattle.roman_top.proofs.Common.{Err, [], rules, refl, ap, Wrote-nil, numbered, length-below, system_of, IsTooLong, TooLong, WritesText, IfSome_then}
use Rattle.roman_top.proofs.CheckLemmas.{found}
use Rattle.roman_top.proofs.check.verdict_on.Goals as goal

pub check-requires : goal.check-requires
check-requires g c = rw length-below c.requires

pub returns-in-Err-TooLong : goal.returns-in-Err-TooLong
returns-in-Err-TooLong g c = λ written faults.
    let A = numbered (system_of c.args.seated.now.joint) in
    let start = c.args.seated.now.start in
    let name = c.args.name.now in
    let long = found A start (g.F.Shelf.texts c.args.shelf.now) _ name _ _ TooLong (ap g.F.Shelf.texts c.new-source.ensures.shelf) c.new-source.ensures.name c.new-source.ensures.at (c.in-Err-TooLong.ensures.too_long (ap Err c.in-Err-TooLong.field-0-is)) in
    record {
      ends = record {
        writes = IfSome_then _ {Q = (λ texts. WritesText (IsTooLong A start name texts) written written status.TooLong)} long (λ texts e. record { text = []; run = (e, (refl, refl)); wrote = Wrote-nil written });
        stops = tt;
        texts = search rules;
        shelf = search rules;
        out = refl;
      };
      early = λ e. let h : ⊥ = cc in h;
    }
