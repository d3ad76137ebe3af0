use Rattle.std.proofs.Common.{max}
use Rattle.otel_picture.proofs.Columns.{column_follows}
use Rattle.otel_picture.proofs.laws.columns_follow_time.Goals as goal

pub returns : goal.returns
returns c = record {
  starts = column_follows;
  within = λ first last columns outer_start outer_end start end o p q. (
    column_follows first last columns outer_start start o p,
    column_follows first last columns (max start end) (max outer_start outer_end) o q,
  );
}
