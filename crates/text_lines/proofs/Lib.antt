mod CutLemmas
mod NumberDigits
