mod AnswerLemmas
mod LineLemmas
mod RunLemmas
