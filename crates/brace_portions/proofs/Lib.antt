pub mod PortionLemmas
