-- The table of the batch queue's steps. It sees of the spans that wait or are in hand only how many they are: a
-- relation for each step between the state before it, what it is given, its outcome, and the state after it, by cases on
-- the outcome. A step that is not enabled changes nothing, and answers so only where no other case holds.
use Rattle.otel_batch.specs.MachineState.{Counts}
use Rattle.otel_batch.specs.ProducerSteps.{OfferRow, SendRow, UndoRow, AskRow, PostRow, ResetRow}
use Rattle.otel_batch.specs.RequestSteps.{RequestRow, CollectRow, ResourceRow}
use Rattle.otel_batch.specs.WorkerSteps.{TakeRow, TickRow, ClearRow, LoadRow, PullRow, HandOverRow, SubtractRow}
use Rattle.otel_batch.specs.DrainEnds.{FinishRow, CloseRow}
use Rattle.otel_batch.specs.declared.machine.state.Request.TheVariants as request
use Rattle.otel_batch.specs.declared.machine.step.Outcome.{Outcome}
use Rattle.otel_batch.specs.declared.machine.step.Step.{Step}
use Rattle.otel_batch.specs.declared.machine.step.Step.TheVariants as step

-- the permitted steps
abbrev pub IsPermitted : Counts → Step → Outcome → Counts → Type 0
IsPermitted s (step.Offer p span) o t = OfferRow s p span o t
IsPermitted s (step.Send p) o t = SendRow s p o t
IsPermitted s (step.Undo p) o t = UndoRow s p o t
IsPermitted s (step.Ask p) o t = AskRow s p o t
IsPermitted s (step.Post p) o t = PostRow s p o t
IsPermitted s (step.Reset p) o t = ResetRow s p o t
IsPermitted s (step.RequestFlush p) o t = RequestRow s request.Flush p o t
IsPermitted s (step.RequestShutdown p) o t = RequestRow s request.Shutdown p o t
IsPermitted s (step.Collect p) o t = CollectRow s p o t
IsPermitted s (step.PostResource resource) o t = ResourceRow s resource o t
IsPermitted s step.Take o t = TakeRow s o t
IsPermitted s step.Tick o t = TickRow s o t
IsPermitted s step.Clear o t = ClearRow s o t
IsPermitted s step.Load o t = LoadRow s o t
IsPermitted s step.Pull o t = PullRow s o t
IsPermitted s step.HandOver o t = HandOverRow s o t
IsPermitted s step.Subtract o t = SubtractRow s o t
IsPermitted s step.Finish o t = FinishRow s o t
IsPermitted s step.Close o t = CloseRow s o t
