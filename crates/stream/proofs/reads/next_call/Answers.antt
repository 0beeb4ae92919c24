use Rattle.std.proofs.Common.{Some, Result, ap}
use Rattle.calls.specs.declared.types.Call.{Call}
use Rattle.stream.specs.declared.faults.CallFault.{CallFault}
use Rattle.stream.proofs.Sure.{one_reading, read_back}
use Rattle.stream.proofs.reads.next_call.Goals as goal

pub returns-then-at_end-clause-one : goal.returns-then-at_end-clause-one
returns-then-at_end-clause-one c = one_reading

pub returns-else-at_end-clause-back : goal.returns-else-at_end-clause-back
returns-else-at_end-clause-back c = λ x rest f e. ap (λ (r : Result Call CallFault). Some r) (read_back c.args.c.now c.read_call.new.c c.read_call.result c.read_call.ensures x rest f e)

pub returns-else-at_end-clause-one : goal.returns-else-at_end-clause-one
returns-else-at_end-clause-one c = one_reading
