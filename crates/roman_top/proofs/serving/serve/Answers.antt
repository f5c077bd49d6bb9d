use Rattle.roman_top.proofs.Common.{None, Some, ◌∙◌, sym, ap, command_as, option_map}
use Rattle.roman_top.proofs.CompleteLemmas.{completes}
use Rattle.roman_top.proofs.HeadlineLemmas.{has_headline}
use Rattle.roman_top.proofs.ServedLemmas.{served_as, usage_served}
use Rattle.roman_top.proofs.serving.serve.Goals as goal

-- words that form no command

pub returns-in-None-clause-served : goal.returns-in-None-clause-served
returns-in-None-clause-served g c =
    served_as _ None _ _ c.finish.result (sym c.command_of.ensures ∙ ap (option_map command_as) c.in-None.is)
    (usage_served _ _ _ _ _ _ _ _ c.finish.result c.put_usage.result c.put_usage.ensures.puts c.finish.ensures c.put_usage.ensures.cause)

-- words that form a command

pub returns-in-Some-clause-headline : goal.returns-in-Some-clause-headline
returns-in-Some-clause-headline g c =
    has_headline _ _ _ c.obey.result c.lines_are_read.ensures.read c.greatest_is_complete.ensures.complete (served_as _ (Some (command_as c.in-Some.command)) _ _ c.obey.result (sym c.command_of.ensures ∙ ap (option_map command_as) c.in-Some.is) c.obey.ensures.served)

pub returns-in-Some-clause-complete : goal.returns-in-Some-clause-complete
returns-in-Some-clause-complete g c =
    completes _ _ _ c.obey.result (served_as _ (Some (command_as c.in-Some.command)) _ _ c.obey.result (sym c.command_of.ensures ∙ ap (option_map command_as) c.in-Some.is) c.obey.ensures.served)
