-- The flags of BPDUs and of MSTI messages (802.1Q-2022, clause 14). Bit 1 is the lowest.
use Rattle.std.specs.Prelude.{ℕ, ◌-◌, ◌/◌, ◌%◌, ◌^◌, Bool, ◌==◌, if◌then◌else◌}
use Rattle.mst_bpdu.specs.declared.flags.RoleCode.{RoleCode}
use Rattle.mst_bpdu.specs.declared.flags.RoleCode.TheVariants.{Master, AlternateOrBackup, Root, Designated}
use Rattle.mst_bpdu.specs.declared.flags.Flags.{Flags}

abbrev pub bit : ℕ → ℕ → Bool
bit n octet = octet / 2 ^ (n - 1) % 2 == 1

-- the role of bits 3 and 4
abbrev pub role_of_code : ℕ → RoleCode
role_of_code code = if code == 0 then Master else (if code == 1 then AlternateOrBackup else (if code == 2 then Root else Designated))

abbrev pub code_of_role : RoleCode → ℕ
code_of_role Master = 0
code_of_role AlternateOrBackup = 1
code_of_role Root = 2
code_of_role Designated = 3

abbrev pub flags_of : ℕ → Flags
flags_of octet =
    record {
      topology_change = bit 1 octet;
      proposal = bit 2 octet;
      role = role_of_code (octet / 4 % 4);
      learning = bit 5 octet;
      forwarding = bit 6 octet;
      agreement = bit 7 octet;
      acknowledgement_or_master = bit 8 octet;
    }
