use Rattle.std.proofs.Common.{pos, w64, refl}
use Rattle.whole_algebra.proofs.Computed.{fits, stored, literal, less_test}
use Rattle.area_entry.proofs.Bends.{bend_computes}
use Rattle.area_entry.proofs.germ.is_left.Goals as goal

pub overflow_sub-result : goal.overflow_sub-result
overflow_sub-result c = fits w64 (bend_computes c.args.r c.args.d) refl

pub returns : goal.returns
returns c = record { left = less_test (literal (pos 0)) (stored w64 (bend_computes c.args.r c.args.d) refl) }
