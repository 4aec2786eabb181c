use Rattle.std.proofs.Common.{rules}
use Rattle.lists.specs.Tests.{cases}
use Rattle.names.specs.Results.{is_taken}
use Rattle.names.proofs.is_taken.Goals as goal

pub returns : goal.returns
unfolding is_taken
returns c = search (rules, cases)
