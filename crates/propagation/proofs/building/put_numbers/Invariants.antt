use Rattle.std.proofs.Common.{take}
use Rattle.propagation.specs.inside.Engine.{AreListed, Grows, HasDemands}
use Rattle.propagation.proofs.building.put_numbers.Given as goal

abbrev pub invariant-loop-demand : goal.invariant-loop-demand
invariant-loop-demand l = record {
  listed : AreListed l.listed l.table;
  grows : Grows l.initial.table l.table;
  put : HasDemands l.own (take l.demand-index l.demands) l.table;
}
