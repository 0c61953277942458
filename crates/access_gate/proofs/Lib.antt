pub mod AdmissionLemmas
