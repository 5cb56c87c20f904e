mod AccountLemmas
