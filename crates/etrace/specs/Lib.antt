pub mod capture
pub mod logs
pub mod lossy
pub mod packets
pub mod runs
pub mod salvaged
pub mod stimuli
pub mod streams
