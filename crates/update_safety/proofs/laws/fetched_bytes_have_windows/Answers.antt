use Rattle.update_safety.proofs.FetchLaws.{fetched_have_windows}
use Rattle.update_safety.proofs.laws.fetched_bytes_have_windows.Goals as goal

pub returns : goal.returns
returns c = fetched_have_windows
