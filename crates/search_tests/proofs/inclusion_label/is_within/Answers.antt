use Rattle.std.proofs.Common.{sym}
use Rattle.search_tests.specs.Includes.{within_is}
use Rattle.search_tests.proofs.inclusion_label.is_within.Goals as goal

pub returns : goal.returns
returns c = sym (within_is c.args.a c.args.b c.difference.result c.is_empty.result c.difference.ensures c.is_empty.ensures)
