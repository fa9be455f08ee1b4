pub mod ForCallers
mod WrittenLemmas
