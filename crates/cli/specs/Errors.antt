-- What an error of `clap` is, for the crates above, which do not name `clap`.
pub use Rattle.clap.specs.Words.{kind_of}
