pub use Rattle.level_engine.specs.residual_network as residual_network
