-- The texts of the faults of a capture.
use Rattle.std.specs.Prelude.{ℕ, List, codes}
use Rattle.mst_bpdu.specs.declared.fault.BpduFault.{BpduFault}
use Rattle.mst_bpdu.specs.declared.fault.BpduFault.TheVariants.{B01, B02, B03, B04, B05, B06, B07, B99}

abbrev pub fault_code : BpduFault → List ℕ
fault_code B01 = codes "B01"
fault_code B02 = codes "B02"
fault_code B03 = codes "B03"
fault_code B04 = codes "B04"
fault_code B05 = codes "B05"
fault_code B06 = codes "B06"
fault_code B07 = codes "B07"
fault_code B99 = codes "B99"

abbrev pub fault_text : BpduFault → List ℕ
fault_text B01 = codes "not hexadecimal"
fault_text B02 = codes "too short"
fault_text B03 = codes "protocol identifier"
fault_text B04 = codes "version or type"
fault_text B05 = codes "version 1 length"
fault_text B06 = codes "version 3 length"
fault_text B07 = codes "unknown sender"
fault_text B99 = codes "want of memory"
