-- What offers after one another do to what is seen of a sink.
use Rattle.std.proofs.Common.{◌≡◌, ℕ, ◌+◌, List, [], ◌++◌, Option, None, Some, refl, sym, ap, ◌∙◌, append_assoc, append-nil, length}
use Rattle.std.proofs.Common.{length-drop, arith, slice_range, take, drop, take_all}
use Rattle.std.proofs.Math.Seq.{take-add}
use Rattle.std.specs.Io.KnownBytes.{append_known}
use Rattle.geosop_io.specs.Sink.{SinkSeen, after_taking}

-- no bytes leave it as it is
pub after_taking-nil : (seen : SinkSeen) → seen ≡ after_taking seen []
after_taking-nil seen = λ i. record { taken = same seen.taken i; faults = seen.faults }
  where
    same : (told : Option (List ℕ)) → told ≡ append_known told []
    same None = refl
    same (Some bytes) = ap Some (sym (append-nil bytes))

-- bytes behind bytes are taken as one
pub after_taking-append : (seen : SinkSeen) (xs ys : List ℕ) → after_taking (after_taking seen xs) ys ≡ after_taking seen (xs ++ ys)
after_taking-append seen xs ys = λ i. record { taken = same seen.taken i; faults = seen.faults }
  where
    same : (told : Option (List ℕ)) → append_known (append_known told xs) ys ≡ append_known told (xs ++ ys)
    same None = refl
    same (Some bytes) = ap Some (append_assoc bytes xs ys)

-- a front of what lies behind the first m bytes of the piece, taken after these
pub taken_onward : (old middle new : SinkSeen) (piece : List ℕ) (m n : ℕ) → middle ≡ after_taking old (take m piece)
    → new ≡ after_taking middle (take n (slice_range piece m (length piece))) → new ≡ after_taking old (take (m + n) piece)
taken_onward old middle new piece m n first second =
    second ∙ ap (λ rest. after_taking middle (take n rest)) (take_all _ (drop m piece) (omega (arith, length-drop m piece)))
    ∙ ap (λ seen. after_taking seen (take n (drop m piece))) first
    ∙ after_taking-append old (take m piece) (take n (drop m piece))
    ∙ ap (after_taking old) (sym (take-add m n piece))
