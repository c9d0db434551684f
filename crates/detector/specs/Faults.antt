-- A detector's faults: their numbers, and the words that they print.
use Rattle.std.specs.Prelude.{ℕ, List, codes}
use Rattle.detector.specs.declared.faults.DetectorFault.{DetectorFault}
use Rattle.detector.specs.declared.faults.DetectorFault.TheVariants.{Size, NoNode, Passive, BadMark, BadItem, Spent}

abbrev pub detector_fault_number : DetectorFault → ℕ
detector_fault_number Size = 20
detector_fault_number NoNode = 21
detector_fault_number Passive = 22
detector_fault_number BadMark = 23
detector_fault_number BadItem = 24
detector_fault_number Spent = 25

abbrev pub detector_fault_text : DetectorFault → List ℕ
detector_fault_text Size = codes "bad number of nodes or bad root"
detector_fault_text NoNode = codes "no such node"
detector_fault_text Passive = codes "the node is passive"
detector_fault_text BadMark = codes "impossible mark"
detector_fault_text BadItem = codes "impossible control item"
detector_fault_text Spent = codes "the node is spent"
