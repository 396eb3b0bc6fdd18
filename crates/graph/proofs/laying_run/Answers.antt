use Rattle.graph.proofs.Theorems.{run_made, run_unique, run_frees, run_least, run_minimal, run_sandwiched, minimal_laid}
use Rattle.graph.proofs.laying_run.Goals as goal

pub returns : goal.returns
returns c =
    record {
      made = run_made;
      unique = run_unique;
      frees = run_frees;
      least = run_least;
      minimal = run_minimal;
      sandwiched = run_sandwiched;
      reached = minimal_laid;
    }
