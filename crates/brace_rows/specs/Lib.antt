pub mod AgentFile
pub mod MadeAgents
pub mod inner
