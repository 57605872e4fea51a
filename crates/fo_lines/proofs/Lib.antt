mod LineLemmas
mod WordLemmas
