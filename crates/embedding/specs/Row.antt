-- The design row of an ion. Definitions only.
use Rattle.std.specs.Prelude.{List, Float}
use Rattle.embedding.specs.declared.Model.{Model}
use Rattle.embedding.specs.declared.Ion.{Ion}
use Rattle.embedding.specs.Design.{design}

abbrev pub row_of : Model → Ion → List Float
row_of model ion = design model ion.letters.now ion.log ion.mass ion.charge
