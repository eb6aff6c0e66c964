-- What the contracts of stimulus cite.
pub use Rattle.stimulus.specs.Mix
pub use Rattle.stimulus.specs.Slot
pub use Rattle.stimulus.specs.ImageBytes
pub use Rattle.stimulus.specs.Walk
pub use Rattle.stimulus.specs.Walked
pub use Rattle.stimulus.specs.Written
pub use Rattle.stimulus.specs.Order
pub use Rattle.stimulus.specs.Mixed
pub use Rattle.stimulus.specs.Mixing
