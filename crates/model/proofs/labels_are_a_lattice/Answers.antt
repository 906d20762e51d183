use Rattle.model.proofs.Lattices.{lattice}
use Rattle.model.proofs.labels_are_a_lattice.Goals as goal

pub returns : goal.returns
returns c = lattice
