mod PartLemmas
mod RemnantLemmas
