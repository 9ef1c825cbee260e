-- The rows of a graph, and how many nodes are not marked.
pub use Rattle.graph_walk.specs.Walk.{listed, row_at, unmarked}
