-- How the settings of bridges and LANs are kept.
use Rattle.std.specs.Prelude.{◌≡◌, Bool, true, false, refl}
use Rattle.mst_lang.specs.declared.line.Kind.{Kind}
use Rattle.mst_lang.specs.declared.line.Kind.TheVariants.{Mstp, Rstp}
use Rattle.mst_lang.specs.declared.line.Power.{Power}
use Rattle.mst_lang.specs.declared.line.Power.TheVariants.{On, Off}
use Rattle.mst_lang.specs.declared.line.LanState.{LanState}
use Rattle.mst_lang.specs.declared.line.LanState.TheVariants.{Up, Down}
use Rattle.mst_tables.specs.After.{is_rstp, is_on, is_up}

abbrev pub kind_of : Bool → Kind
kind_of true = Rstp
kind_of false = Mstp

pub kind_of-is_rstp : (kind : Kind) → kind_of (is_rstp kind) ≡ kind
kind_of-is_rstp Mstp = refl
kind_of-is_rstp Rstp = refl

abbrev pub power_of : Bool → Power
power_of true = On
power_of false = Off

pub power_of-is_on : (power : Power) → power_of (is_on power) ≡ power
power_of-is_on On = refl
power_of-is_on Off = refl

abbrev pub state_of : Bool → LanState
state_of true = Up
state_of false = Down

pub state_of-is_up : (state : LanState) → state_of (is_up state) ≡ state
state_of-is_up Up = refl
state_of-is_up Down = refl
