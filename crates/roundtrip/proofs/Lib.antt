pub mod QuietLemmas
pub mod RuleFacts
pub mod PacketOrder
pub mod RestDescribed
pub mod QuietDescribed
pub mod EventDescribed
pub mod FirstPackets
