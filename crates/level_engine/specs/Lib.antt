pub use Rattle.residual_network as residual_network
