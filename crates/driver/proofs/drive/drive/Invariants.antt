use Rattle.std.proofs.Common.{ℕ, List, Result}
use Rattle.checker.specs.declared.Ended.{Ended}
use Rattle.checker.specs.declared.Refused.{Refused}
use Rattle.checker.specs.Lists.{Lists, lists}
use Rattle.checker.specs.Promises.{answers_left}
use Rattle.driver.specs.Driving.{Marked, Driven}
use Rattle.driver.proofs.drive.drive.Given as goal

-- whatever driving on from here comes to, the whole drive comes to
abbrev pub invariant-loop-next : goal.invariant-loop-next
invariant-loop-next g l =
    (o : Result Ended Refused) (x : Lists) (b w : List ℕ) (s : _)
    → Driven (Marked g.P.Producer.replies g.P.Producer.honest) l.sheet l.asked (lists l.formula l.line_values l.question) l.answer l.work l.producer o x b w s
    → Driven (Marked g.P.Producer.replies g.P.Producer.honest) l.sheet l.initial.asked (lists l.initial.formula l.initial.line_values l.initial.question) l.initial.answer l.initial.work l.initial.producer o x b w s

abbrev pub decreases-loop-next : goal.decreases-loop-next
decreases-loop-next g l = answers_left l.asked
