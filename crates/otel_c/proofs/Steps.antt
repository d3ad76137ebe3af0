-- The names that each walk cites, passed on.
pub use Rattle.std.proofs.Common.{◌≡◌, ℕ, List, [], ◌∷◌, ◌++◌, refl, sym, ap, lit<}
pub use base.Fml.{ftrue, fsep, flft}
pub use base.Logic.{id⊢}
pub use contract.BorrowLft.{◌⊑◌}
pub use contract.Monad.{fact}
pub use contract.Running.{tables}
pub use denote.Builtin.{RawPtr}
pub use denote.Exit.{yes, no}
pub use denote.RawPtr.{Ptr, block_ptr, null_ptr, ptr_val}
pub use denote.Signature.{Slot, plain}
pub use denote.Steps.{nothing, only, heard, peeks}
pub use denote.Triple.Call.{calls_at, calls_at_last}
pub use denote.Triple.Spec.{triple_of}
pub use denote.Triple.Table.{framed}
pub use denote.Triple.Walked.{Stays, stay_dropped, walk_of, Goes-dropped, says, ends_at}
pub use mir.MapTy.{inst_fn}
pub use mir.Val.{Val, vptr, vstruct, vcons, vnil}
pub use prog.Wp.{WpFn}
pub use types.ByLocal.{alloc_all, pass_all, free_all, look_at, get, get_in, sets, lands_as, lands_last, env}
pub use types.Kit.{Item, Goal, Seq, ‵, raw, ◌⊛◌, some, later, prop, at_ret, ◌$◌, ◌∵◌, !, qed, done, move, keep, drop}
pub use types.Kit.{group, use1, split, split3, join, fsplit, fjoin, fjoin3, fpack, feq_i, pick, await, rewrite}
pub use types.Kit.{regoal, suffices}
pub use types.Part.{agg, sub, whole}
pub use types.Run.{stop, fld, of_opd, lit, no_more, and_then, first, blocks, exec, returns, enter}
pub use Rattle.std.proofs.BoxSteps.Form.{Bx, D, R, P, B, args, word, box_typed}
pub use Rattle.std.proofs.alloc.Calls.{Goes-blank}
pub use Rattle.std.proofs.raw_atomic.Walks.{proved_at}
