pub mod PeerArgument
