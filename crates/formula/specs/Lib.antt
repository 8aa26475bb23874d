pub mod Formulas
pub mod Conjunction
pub mod Starting
pub mod Framing
pub mod Built
