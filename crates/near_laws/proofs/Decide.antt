-- The near nodes and the envelopes decide what two figures have in each cell.
pub mod Near
