pub use Rattle.spanning_tree.specs.residual_network as residual_network
