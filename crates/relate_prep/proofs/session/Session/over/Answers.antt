use Rattle.std.proofs.Common.{◌∙◌}
use Rattle.std.specs.Prelude.{map}
use Rattle.std.proofs.lemmas.List.{length-map}
use Rattle.once_cell.specs.Once.{cell_name}
use Rattle.relate_prep.proofs.NewSessions.{new_over, new_area_cells}
use Rattle.relate_prep.proofs.session.Session.over.Goals as goal

pub invariant_of-result : goal.invariant_of-result
invariant_of-result c =
    let names = map cell_name c.args.area_cells.now in
    record {
      edge = new_over c.args.basis.now.segs (cell_name c.args.edge_cell.now) c.nothing.result c.nothing.ensures.new;
      areas =
          new_area_cells c.args.basis.now.figure names c.in_ok-nothing_of.field-0.items
          (length-map c.args.area_cells.now cell_name ∙ c.requires.count) c.in_ok-nothing_of.ensures.new;
    }
