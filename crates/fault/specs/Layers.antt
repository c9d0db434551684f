-- The layers of the engine, by the words that name them in a printed fault.
use Rattle.std.specs.Prelude.{List, ℕ, codes}
use Rattle.fault.specs.declared.Layer.{Layer}
use Rattle.fault.specs.declared.Layer.TheVariants.{Reader, Opening, Detector, Basic, Control, Run}

abbrev pub layer_word : Layer → List ℕ
layer_word Reader = codes "reader"
layer_word Opening = codes "opening"
layer_word Detector = codes "detector"
layer_word Basic = codes "basic"
layer_word Control = codes "control"
layer_word Run = codes "run"
