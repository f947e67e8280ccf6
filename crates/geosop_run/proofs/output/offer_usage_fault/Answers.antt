-- The pieces are those of the line, with the place or without one.
use Rattle.std.proofs.Common.{◌≡◌, ◌∙◌, ℕ, Option, Some, None, [], ◌∷◌, codes, sym, subst}
use Rattle.std.specs.Fmt.{decimal}
use Rattle.std.specs.List.{concat}
use Rattle.geosop_io.specs.Sink.{IsOffered}
use Rattle.geosop_run.specs.Statuses.{usage_name, place_of, place_text, line_feed}
use Rattle.geosop_run.proofs.output.offer_usage_fault.Goals as goal

pub returns-in-Some : goal.returns-in-Some
returns-in-Some g c =
    let digits : c.as_bytes-place.result.now ≡ decimal c.in-Some.place = cc in
    let at : place_of c.args.fault ≡ Some c.in-Some.place = sym c.usage_place.ensures.place ∙ c.in-Some.is in
    record {
      offered = subst (λ (place : Option ℕ). IsOffered c.offer_pieces.result (g.E.Sink.seen c.args.err.now)
          (g.E.Sink.seen c.offer_pieces.new.out)
          (concat (codes "geosop: usage fault: " ∷ usage_name c.args.fault ∷ place_text place ∷ line_feed ∷ [])))
          (sym at) (rw (← digits, ← c.usage_name-name.ensures.name) c.offer_pieces.ensures.offered);
    }

pub returns-in-None : goal.returns-in-None
returns-in-None g c =
    let at : place_of c.args.fault ≡ None = sym c.usage_place.ensures.place ∙ c.in-None.is in
    record {
      offered = subst (λ (place : Option ℕ). IsOffered c.offer_pieces-in-None.result (g.E.Sink.seen c.args.err.now)
          (g.E.Sink.seen c.offer_pieces-in-None.new.out)
          (concat (codes "geosop: usage fault: " ∷ usage_name c.args.fault ∷ place_text place ∷ line_feed ∷ [])))
          (sym at) (rw (← c.usage_name-name.ensures.name) c.offer_pieces-in-None.ensures.offered);
    }
