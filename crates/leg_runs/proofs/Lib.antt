mod SumLaws
mod FitLaws
