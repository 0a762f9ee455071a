use Rattle.ia32_step.proofs.FlowLaws.{calls, returns, call_falls, step_calls, step_returns}
use Rattle.ia32_step.proofs.laws.calls_and_returns.Goals as goal

pub returns-clause-calls : goal.returns-clause-calls
returns-clause-calls c contents thread long out = step_calls contents thread long out

pub returns-clause-returns : goal.returns-clause-returns
returns-clause-returns c contents thread out = step_returns contents thread out

pub returns-clause-called : goal.returns-clause-called
returns-clause-called c contents thread call long out = calls contents thread call long out

pub returns-clause-returned : goal.returns-clause-returned
returns-clause-returned c contents thread decoded out = returns contents thread decoded out

pub returns-clause-falls : goal.returns-clause-falls
returns-clause-falls c thread call after is placed small = call_falls thread call after is placed small
