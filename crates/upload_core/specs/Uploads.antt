-- What a session uploads, from what it is made of.
use Rattle.std.specs.Prelude.{Bool, List}
use Rattle.upload_model.specs.declared.loads.Load.{Load}
use Rattle.upload_model.specs.Sessions.{Upload}
use Rattle.upload_core.specs.declared.session.Settings.{Settings}

-- These loads, to the place that the settings name, with read-back or without, and with a start or
-- without.
abbrev pub upload_of : Settings → List Load → Bool → Bool → Upload
upload_of settings loads readback start = record {
  memory_id = settings.memory_id;
  offset = settings.offset;
  trajectory_id = settings.trajectory_id;
  loads = loads;
  readback = readback;
  start = start;
}
