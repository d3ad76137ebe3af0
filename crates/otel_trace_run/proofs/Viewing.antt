-- A view by its status, once its picture was written.
use Rattle.std.proofs.Common.{◌≡◌, ◌≢◌, ◌⊎◌, inl, inr, ℕ, List, [], append-nil, arith, sym}
use Rattle.otel_trace_run.specs.Streams.{Streams}
use Rattle.otel_trace_run.specs.Views.{BeginsView, DrawsView, PlainNotes, StatusOf, Tells, Views, notes_text}
use Rattle.otel_trace_run.specs.declared.asked_view.View.{View}

begins : (view : View) (s : Streams) (notes : PlainNotes) → DrawsView view s notes → BeginsView view s
begins view s notes h = inr (h.text, notes, h.reads, (h.text, [], sym (append-nil h.text), h.written))

pub views_by : (view : View) (s : Streams) (notes : PlainNotes) (Silent : Type 0) (Says : List ℕ → Type 0) (status : ℕ)
    → DrawsView view s notes
    → (status ≡ 1) ⊎ (StatusOf notes status × Tells Silent Says (notes_text notes))
    → Views view s Silent Says status
views_by view s notes Silent Says status h (inl one) = record {
  small = omega (arith, one);
  done = λ e. absurd (omega (arith, one, e));
  named = λ e. absurd (omega (arith, one, e));
  failed = λ e. begins view s notes h;
}
views_by view s notes Silent Says status h (inr (inl none, told)) = record {
  small = omega (arith, none.0);
  done = λ e. (notes, none.1, (h, told));
  named = λ e. absurd (omega (arith, none.0, e));
  failed = λ e. absurd (omega (arith, none.0, e));
}
views_by view s notes Silent Says status h (inr (inr some, told)) = record {
  small = omega (arith, some.0);
  done = λ e. absurd (omega (arith, some.0, e));
  named = λ e. (notes, some.1, (h, told));
  failed = λ e. absurd (omega (arith, some.0, e));
}
