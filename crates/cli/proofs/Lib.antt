mod GrammarLemmas
mod NumberLemmas
mod SubcommandLemmas
