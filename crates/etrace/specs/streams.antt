-- What the contracts of logs as streams cite.
pub use Rattle.retire.specs.Source
pub use Rattle.retire.specs.ReaderSource
pub use Rattle.retire.specs.HasRead
pub use Rattle.log_streams.specs.Gave
pub use Rattle.log_streams.specs.Known
pub use Rattle.log_streams.specs.Illegal
pub use Rattle.log_streams.specs.Read
pub use Rattle.log_streams.specs.Next
pub use Rattle.log_streams.specs.Refusing
pub use Rattle.log_streams.specs.Made
