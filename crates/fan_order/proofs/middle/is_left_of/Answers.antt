use Rattle.std.proofs.Common.{pos, w64, refl}
use Rattle.whole_algebra.proofs.Computed.{fits, stored, literal, less_test}
use Rattle.fan_order.proofs.Middles.{bend_computes}
use Rattle.fan_order.proofs.middle.is_left_of.Goals as goal

pub overflow_sub-result : goal.overflow_sub-result
overflow_sub-result c = fits w64 (bend_computes c.args.ray c.args.next c.requires.ray c.requires.next) refl

pub returns : goal.returns
returns c =
    record { left = less_test (literal (pos 0)) (stored w64 (bend_computes c.args.ray c.args.next c.requires.ray c.requires.next) refl) }
