-- A last field is all of the fields, and a moment has its place.
use Rattle.std.proofs.Common.{Some, ap, refl}
use Rattle.otel_trace_run.specs.Reasons.{moment_place}
use Rattle.otel_trace_run.specs.declared.reason.Reason.TheVariants as reasons
use Rattle.otel_trace_run.proofs.ReasonLemmas.{either_place, explains_last, explains_moment}
use Rattle.otel_trace_run.proofs.reason.reason_after.Goals as goal

pub returns-in-Inject : goal.returns-in-Inject
returns-in-Inject c = explains_last c.args.word.now c.args.fields.now c.reason_of_word-wants.result c.reason_of_last.result c.reason_of_word-wants.ensures c.reason_of_last.ensures

pub returns-in-Run : goal.returns-in-Run
returns-in-Run c =
    explains_moment c.args.word.now c.args.fields.now c.reason_of_word-wants.result c.reason_before_moment.result 0
    c.reason_of_word-wants.ensures (ap moment_place c.in-Run.is) c.reason_before_moment.ensures

pub returns-in-End : goal.returns-in-End
returns-in-End c =
    explains_moment c.args.word.now c.args.fields.now c.reason_of_word-wants.result c.reason_before_moment-in-End.result 1
    c.reason_of_word-wants.ensures (ap moment_place c.in-End.is) c.reason_before_moment-in-End.ensures

pub returns-in-Start : goal.returns-in-Start
returns-in-Start c =
    let wants = c.reason_of_word-wants.result in
    explains_moment c.args.word.now c.args.fields.now wants c.reason_before_moment_and_more.result 2
    c.reason_of_word-wants.ensures
    (either_place wants reasons.Start reasons.Event (Some 2) refl refl c.in-Start.is)
    c.reason_before_moment_and_more.ensures

pub returns-in-Child : goal.returns-in-Child
returns-in-Child c =
    let wants = c.reason_of_word-wants.result in
    explains_moment c.args.word.now c.args.fields.now wants c.reason_before_moment_and_more-in-Child.result 3
    c.reason_of_word-wants.ensures
    (either_place wants reasons.Child reasons.Remote (Some 3) refl refl c.in-Child.is)
    c.reason_before_moment_and_more-in-Child.ensures
